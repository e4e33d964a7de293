-- The files of definitions.
pub mod Stamps
pub mod Front
pub mod Sight
