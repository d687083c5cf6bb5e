-- Rules for a walk by hand over lent slices, leaves first.
pub mod Again
pub mod Relend
pub mod Data
pub mod Held
pub mod First
pub mod Prefix
pub mod Locals
pub mod Walk
pub mod Calls
pub mod Between
pub mod Meets
pub mod Arrays
pub mod Front
pub mod Clauses
