-- The definitions that the clauses cite.
pub mod Store
pub mod Wants
pub mod Laws
pub mod Places
