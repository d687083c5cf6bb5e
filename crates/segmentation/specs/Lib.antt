-- The records of segments.
pub mod Segments
