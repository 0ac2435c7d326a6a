pub mod Computed
pub mod OneOutcome
pub mod Permission
mod Turns
