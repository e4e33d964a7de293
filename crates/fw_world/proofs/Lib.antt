-- The files of lemmas.
pub mod Parts
pub mod Views
pub mod OwnRun
