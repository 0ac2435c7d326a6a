pub mod Lines
pub mod Writing
