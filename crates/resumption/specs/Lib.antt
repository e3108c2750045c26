pub mod AbsentAsZero
pub mod Resumption
pub mod ResumptionLaws
