-- What each export answers, and what it stores.
pub mod Stored
