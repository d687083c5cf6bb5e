-- Laws of the stored segments' records.
pub mod Stored
pub mod Drawn
pub mod Drawing
pub mod Clean
pub mod Held
