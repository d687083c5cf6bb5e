-- The code's own types, as document 01's values.
pub mod Records
pub mod Marks
pub mod Remaining
pub mod Searchable
