-- Laws of records in lent memory, and of the choice among them.
pub mod Flat
pub mod Chosen
