pub mod Stored
pub mod Updates
pub mod Kept
pub mod Offered
