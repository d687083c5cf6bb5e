-- What the calls leave.
pub mod Left
