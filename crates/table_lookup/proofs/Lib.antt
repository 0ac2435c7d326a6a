pub mod Computed
pub mod Finding
mod Handed
pub mod HandedBack
pub mod InOrder
mod Judged
pub mod Laid
mod LastWithin
pub mod LookedUp
pub mod OneOutcome
pub mod OnlyTable
pub mod RowsRead
pub mod TableFormed
