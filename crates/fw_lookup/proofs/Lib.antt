-- The files of lemmas.
pub mod Looking
