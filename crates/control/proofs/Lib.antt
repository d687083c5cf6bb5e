-- Laws of the tests, and what holds where they pass.
pub mod Values
pub mod Pairs
pub mod Sizes
pub mod Clean
pub mod Follows
pub mod Apart
