-- What the contracts cite beside document 01's own definitions.
pub mod Range
