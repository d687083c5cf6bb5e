-- What contracts inside the crate cite, beside document 01's definitions.
pub mod Marks
