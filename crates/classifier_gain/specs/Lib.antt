-- What contracts inside the library cite, beside document 01's definitions.
pub mod Asked
