pub mod Least
pub mod Best
pub mod Steps
