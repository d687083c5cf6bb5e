-- For each lent slice: what it holds afterwards.
pub mod Left
