-- The files of lemmas.
pub mod Looking
pub mod Ready
pub mod Heard
pub mod After
pub mod Short
pub mod Sendable
