-- The files of lemmas.
pub mod Admitting
pub mod Signing
pub mod Joining
pub mod Lengths
pub mod Hands
