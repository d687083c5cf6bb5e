-- Laws on the sums of a permutation, and on the counter.
pub mod Summed
pub mod Counted
