-- The files of lemmas.
pub mod Votes
pub mod Others
pub mod Held
