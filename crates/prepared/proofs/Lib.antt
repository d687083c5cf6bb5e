-- What holds where nothing is refused, and what then stands.
pub mod Clean
pub mod Stands
pub mod Stores
