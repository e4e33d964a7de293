-- The files of definitions.
pub mod Summary
pub mod Entries
pub mod Crossing
pub mod Clients
pub mod Parts
