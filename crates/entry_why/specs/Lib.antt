-- What the call leaves.
pub mod Left
