-- The files of definitions.
pub mod Texts
pub mod Bits
