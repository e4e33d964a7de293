-- The files of definitions.
pub mod Lines
pub mod Answer
pub mod Reasons
pub mod Codes
