-- Whether a row is near another.
pub mod Near
