-- The files of definitions.
pub mod Sizes
pub mod Checks
pub mod Seats
pub mod Names
pub mod Places
pub mod Faults
pub mod Link
