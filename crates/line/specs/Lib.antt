-- The definitions that the contracts of `line` cite.
pub mod Walk
pub mod Kept
