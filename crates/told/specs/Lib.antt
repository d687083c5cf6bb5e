-- How an answer reaches a host.
pub mod Told
