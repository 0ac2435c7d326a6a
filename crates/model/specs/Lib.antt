pub mod Climb
pub mod Model
pub mod Most
pub mod ProfileA
pub mod Rounding
pub mod Testing
pub mod Valid
