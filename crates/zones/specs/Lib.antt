pub mod Zones
pub mod ZoneRows
pub mod Lies
pub mod Multipliers
