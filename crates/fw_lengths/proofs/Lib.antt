-- The files of lemmas.
pub mod Options
pub mod Pieces
pub mod Short
pub mod Admitted
pub mod Signed
pub mod Said
