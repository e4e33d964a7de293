-- The files of lemmas.
pub mod Fronts
pub mod OneText
pub mod ByBits
pub mod Digests
