-- The files of lemmas.
pub mod Within
pub mod Openable
pub mod Sending
pub mod Sendable
pub mod After
