-- The lemmas of this crate.
pub mod Whole
pub mod FirstWords
pub mod One
pub mod Decoded
pub mod Made
