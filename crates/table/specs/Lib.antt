pub mod Descent
pub mod Table
pub mod Reading
