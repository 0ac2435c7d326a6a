pub mod Bytes
pub mod Fields
pub mod OneOutcome
pub mod Packing
pub mod Rows
pub mod Words
