pub mod Zone
pub mod RowNumbers
pub mod Listing
pub mod Places
pub mod Walk
