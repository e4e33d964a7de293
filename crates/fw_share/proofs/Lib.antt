-- The files of lemmas.
pub mod Firsts
pub mod Joined
pub mod First
pub mod Null
pub mod Seen
