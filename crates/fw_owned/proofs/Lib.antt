-- The files of lemmas.
pub mod Found
pub mod Lists
pub mod Writing
