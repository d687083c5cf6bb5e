-- Sizes that are not refused.
pub mod Sizes
