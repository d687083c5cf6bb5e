-- The code's segment, as the definitions'.
pub mod Segments
