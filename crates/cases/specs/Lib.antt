pub mod Case
pub mod Cases
pub mod Wrong
