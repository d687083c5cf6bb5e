-- Laws on permutations and marks.
pub mod Times
pub mod Bits
pub mod Marked
pub mod Passes
