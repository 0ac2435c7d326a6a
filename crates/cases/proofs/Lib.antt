pub mod Anew
pub mod Worked
pub mod Wrong
