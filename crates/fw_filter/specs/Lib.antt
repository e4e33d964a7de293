-- The files of definitions.
pub mod Sifting
pub mod Standing
