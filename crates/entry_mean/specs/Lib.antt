-- For each call: what it leaves.
pub mod Left
