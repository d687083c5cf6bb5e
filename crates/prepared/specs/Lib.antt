-- What a call for the tree is asked, and what stands once it is prepared.
pub mod Answers
