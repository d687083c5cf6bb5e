-- The laws that belong to no one function.
pub mod Tested
pub mod Parts
pub mod Words
pub mod Numbers
pub mod Thresholds
