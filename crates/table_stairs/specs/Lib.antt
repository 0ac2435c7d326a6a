pub mod Stairs
pub mod Held
pub mod Ordered
