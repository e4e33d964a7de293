-- The files of definitions.
pub mod Lists
pub mod Numbers
