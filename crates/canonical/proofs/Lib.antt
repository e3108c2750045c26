pub mod AnyOrder
pub mod Written
pub mod Theorem
pub mod Rearranged
pub mod ThreeKinds
pub mod Built
pub mod Measured
pub mod OperationLaws
