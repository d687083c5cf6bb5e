-- A layer by value.
pub mod Layer
