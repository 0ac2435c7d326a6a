pub mod Cutting
pub mod OneOutcome
pub mod Words
