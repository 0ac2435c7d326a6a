pub mod Next
pub mod Collected
