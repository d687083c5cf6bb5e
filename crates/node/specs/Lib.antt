-- The definitions that the contracts of `node` cite.
pub mod Nodes
