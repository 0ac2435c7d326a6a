pub mod Tests
pub mod Turns
