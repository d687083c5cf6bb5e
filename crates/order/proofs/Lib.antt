-- Laws of one row's order.
pub mod Parts
pub mod Ordered
pub mod Merging
pub mod Halving
