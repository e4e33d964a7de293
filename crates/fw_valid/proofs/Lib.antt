-- The files of lemmas.
pub mod Joining
pub mod Lists
pub mod Fitting
pub mod Filling
