pub mod Fit
pub mod Layout
pub mod Packing
pub mod RowWords
