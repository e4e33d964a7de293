-- The definitions that the clauses cite.
pub mod Members
pub mod Reading
pub mod Document
pub mod Faults
pub mod Replayed
pub mod Stages
