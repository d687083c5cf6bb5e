-- Laws that callers cite: of truncation and ceiling, of bounds through the operations, of the lengths that are rounded, of the root.
pub mod Order
pub mod Values
pub mod Whole
pub mod Within
pub mod Relative
pub mod Layers
pub mod Root
-- Laws of the nearest f32.
pub mod Quotient
pub mod Pattern
pub mod Digits
pub mod Nearest
pub mod Above
pub mod Signs
