-- What holds where nothing is refused, and what is then told.
pub mod Clean
pub mod Told
