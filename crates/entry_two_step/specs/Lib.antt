-- A list that is lent or not, by the definitions' word.
pub mod Answers
