-- The files of definitions.
pub mod OneText
pub mod ByBits
