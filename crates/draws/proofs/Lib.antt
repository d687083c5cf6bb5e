-- How small T is; whether a draw stops past the run.
pub mod Given
pub mod Past
