-- The files of definitions.
pub mod Nodes
pub mod GridNodes
pub mod Causes
pub mod Seen
pub mod Schedule
pub mod Fronts
pub mod Staged
