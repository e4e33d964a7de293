-- The definitions.
pub mod Report
