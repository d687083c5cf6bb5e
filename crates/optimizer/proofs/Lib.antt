-- Laws that the proofs of the candidates, of marks and of searches share; laws for callers of a search.
pub mod Barred
pub mod Marking
pub mod Remaining
pub mod Tried
pub mod Passed
pub mod Origins
pub mod Found
pub mod Answered
