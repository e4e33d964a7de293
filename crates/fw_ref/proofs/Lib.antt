-- The lemmas.
pub mod Kept
pub mod Fitting
pub mod Growing
pub mod Listing
