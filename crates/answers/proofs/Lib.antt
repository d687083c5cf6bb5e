-- The laws that belong to no one function.
pub mod Limits
pub mod Grown
pub mod Printed
pub mod Said
