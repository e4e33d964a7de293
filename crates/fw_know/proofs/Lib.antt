-- The files of lemmas.
pub mod Answers
pub mod Books
pub mod Marking
pub mod Knowing
