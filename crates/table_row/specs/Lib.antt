pub mod Table
pub mod Cut
