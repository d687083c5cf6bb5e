-- Laws that the proofs of the growth share.
pub mod Growth
pub mod Segmented
