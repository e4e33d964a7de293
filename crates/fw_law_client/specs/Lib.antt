-- The files of definitions.
pub mod Asking
