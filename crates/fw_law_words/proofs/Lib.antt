-- The files of lemmas.
pub mod Tests
pub mod Firsts
pub mod Lists
pub mod Roles
