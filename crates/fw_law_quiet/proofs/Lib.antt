-- The files of lemmas.
pub mod Settling
pub mod Turning
pub mod Offering
pub mod Voting
pub mod Committing
pub mod Quiet
