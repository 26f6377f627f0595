-- A list is closed.
pub mod Closed
pub mod Collected
