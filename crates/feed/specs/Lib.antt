-- The code's state, as the definitions'.
pub mod States
