pub mod Writing
pub mod Kept
