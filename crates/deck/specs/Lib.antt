-- The definitions that the contracts of `deck` cite.
pub mod Walk
pub mod Meaning
