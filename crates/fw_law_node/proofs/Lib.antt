-- The files of lemmas.
pub mod Acts
pub mod Own
pub mod Once
pub mod Quorums
pub mod Best
pub mod Facts
pub mod Ranges
pub mod Nodes
pub mod Begun
pub mod Found
pub mod Each
pub mod Having
pub mod Source
pub mod OneText
pub mod Remembered
pub mod Sent
