-- The files of definitions.
pub mod Books
pub mod Answering
pub mod Known
pub mod Marks
