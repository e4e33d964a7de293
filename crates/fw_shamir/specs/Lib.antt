-- The files of definitions.
pub mod Field
pub mod Polynomial
pub mod Sharing
pub mod Steps
