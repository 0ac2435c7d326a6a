pub mod OneOutcome
pub mod LeastNeed
pub mod Planned
pub mod Settled
pub mod Answered
