-- The files of definitions.
pub mod Showing
pub mod Faults
pub mod Correct
pub mod Hostile
