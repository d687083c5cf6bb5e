-- The definitions that the contracts of `why` cite.
pub mod Asked
