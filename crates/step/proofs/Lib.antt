pub mod Along
pub mod Bounds
pub mod Fits
pub mod Pages
pub mod Shared
