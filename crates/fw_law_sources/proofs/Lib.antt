-- The files of lemmas.
pub mod Requests
pub mod Passing
pub mod Shares
pub mod Joining
pub mod Replies
