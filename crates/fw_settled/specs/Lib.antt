-- The files of definitions.
pub mod Queued
