-- The laws that belong to no one function.
pub mod Lots
pub mod Known
