-- The definitions that the contracts of `reading`, and of the programs over it, cite.
pub mod Told
pub mod Taken
pub mod Known
