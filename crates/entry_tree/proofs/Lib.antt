-- Laws from what is prepared to what is grown.
pub mod Whole
pub mod Room
