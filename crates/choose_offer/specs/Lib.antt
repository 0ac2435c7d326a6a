pub mod Found
pub mod Plan
pub mod Laws
