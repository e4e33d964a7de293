-- The files of lemmas.
pub mod Along
pub mod Heads
pub mod Items
pub mod Larger
pub mod OwnSlots
pub mod Rows
pub mod Whole
pub mod Beginning
