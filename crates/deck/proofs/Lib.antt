-- The laws that belong to no one function.
pub mod Fed
pub mod Fields
pub mod Whole
pub mod Said
