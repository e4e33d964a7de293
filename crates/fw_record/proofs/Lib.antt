-- The files of lemmas.
pub mod Finding
pub mod Lists
pub mod Rising
pub mod Texts
