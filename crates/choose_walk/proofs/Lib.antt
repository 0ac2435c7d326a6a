pub mod Fold
pub mod Lessening
pub mod Asked
