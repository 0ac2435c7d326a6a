pub mod Choice
pub mod Least
pub mod Steps
