-- What a call answers, as document 01's values. For each lent slice: what it holds afterwards.
pub mod Answers
pub mod Left
