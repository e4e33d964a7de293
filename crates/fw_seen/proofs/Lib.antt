-- The files of lemmas.
pub mod Counting
pub mod Told
pub mod Clients
pub mod Submitted
pub mod Composed
