-- The laws that belong to no one function.
pub mod Judged
pub mod Sized
