-- Laws of layers.
pub mod Layered
