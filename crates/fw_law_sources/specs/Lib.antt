-- The files of definitions.
pub mod Sources
pub mod Asked
pub mod Executed
pub mod Joined
