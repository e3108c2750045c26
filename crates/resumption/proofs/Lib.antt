pub mod Theorems
pub mod ResumptionLaws
