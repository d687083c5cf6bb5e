-- Laws that the proofs of the gain share; a matrix with room for its sums.
pub mod Cumsum
pub mod Room
