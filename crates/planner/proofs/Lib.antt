mod Left
pub mod OneOutcome
