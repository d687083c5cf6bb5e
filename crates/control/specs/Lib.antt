-- What calls are asked with and refused by, as document 01's values.
pub mod Refused
pub mod Settings
