-- The lemmas of this crate.
pub mod Names
pub mod Order
pub mod Found
pub mod Seen
pub mod Views
pub mod Isolated
pub mod Done
pub mod Told
pub mod Wanted
pub mod Built
