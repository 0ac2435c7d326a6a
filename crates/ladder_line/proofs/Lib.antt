pub mod Decimals
pub mod Periods
pub mod Putting
