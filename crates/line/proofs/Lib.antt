-- The laws that belong to no one function.
pub mod Minus
pub mod Heads
pub mod Lines
pub mod Held
