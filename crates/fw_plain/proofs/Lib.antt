-- The files of lemmas.
pub mod Going
