-- Records in lent memory.
pub mod Flat
pub mod Records
