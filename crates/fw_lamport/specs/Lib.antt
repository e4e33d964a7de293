-- The files of definitions.
pub mod Signature
