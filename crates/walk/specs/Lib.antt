pub mod Chains
pub mod Walk
pub mod Numbers
pub mod Steps
pub mod Laws
pub mod Lent
