-- What is told of a row: the code's values for the definitions', and what it is told after.
pub mod Answers
pub mod Walked
