-- The files of lemmas.
pub mod Steps
pub mod Holding
pub mod Sending
pub mod Counting
pub mod Settled
