-- The definitions that the contracts of `token` cite.
pub mod Walk
pub mod Options
