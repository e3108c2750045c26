pub mod Authentication
pub mod OtherEnd
