-- Laws of distances and of the table of orders.
pub mod Distances
