pub mod Headers
pub mod OneOutcome
pub mod Records
