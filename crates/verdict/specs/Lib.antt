-- What a verdict says.
pub mod Rules
