-- Laws on what is lent with a count, and on the curve.
pub mod Lents
pub mod Curved
