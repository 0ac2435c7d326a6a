pub mod Scoring
pub mod Judging
