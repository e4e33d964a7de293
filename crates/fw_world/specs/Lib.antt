-- The files of definitions.
pub mod Plans
pub mod Replay
pub mod Played
