-- The laws that belong to no one function.
pub mod Refused
pub mod Clean
pub mod Held
