-- The files of definitions.
pub mod Toys
pub mod Casts
