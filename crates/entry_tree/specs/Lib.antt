-- What is answered with, and what the calls leave.
pub mod Answers
pub mod Left
