-- The files of definitions.
pub mod Validity
pub mod Checks
