-- The laws that belong to no one function.
pub mod Barred
pub mod Walk
