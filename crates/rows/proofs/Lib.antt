-- Laws on lists that every writing loop uses, and on pairs that stand flat.
pub mod Stored
pub mod Pairs
