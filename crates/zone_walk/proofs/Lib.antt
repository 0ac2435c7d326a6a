pub mod OfProfile
pub mod RowNumbers
pub mod Steps
