-- The files of definitions.
pub mod Shares
pub mod Combining
