-- What the theorems on the tree and its sheet speak of, and the theorems themselves as one record, `Demand`.
pub mod Reached
pub mod Offered
pub mod Spaced
pub mod Grows
pub mod Told
pub mod AllZero
pub mod Levels
pub mod Demand
pub mod Because
pub mod Origins
pub mod ClosedEnd
pub mod Printed
