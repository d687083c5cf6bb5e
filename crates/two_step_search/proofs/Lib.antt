-- Laws on guesses.
pub mod Guessing
