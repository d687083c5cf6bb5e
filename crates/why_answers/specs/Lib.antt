-- The definitions that the contracts of `why_answers` cite.
pub mod Answered
