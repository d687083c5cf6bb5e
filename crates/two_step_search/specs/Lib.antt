-- Guesses by value.
pub mod Guessed
