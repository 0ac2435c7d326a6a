pub mod Listing
pub mod Text
pub mod ProfileA
