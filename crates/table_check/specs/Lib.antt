pub mod Formed
pub mod Checks
