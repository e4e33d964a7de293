-- The files of definitions.
pub mod Source
pub mod Sink
pub mod Steady
