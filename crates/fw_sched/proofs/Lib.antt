-- The lemmas of this crate.
pub mod Itemwise
pub mod Heads
pub mod Verdicts
pub mod Counted
pub mod Texts
pub mod Names
