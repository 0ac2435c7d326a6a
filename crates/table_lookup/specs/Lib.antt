pub mod Lookup
pub mod AsChosen
