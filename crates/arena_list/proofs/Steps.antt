-- What a single step does and tells.
pub mod Keeps
pub mod Linking
pub mod States
pub mod Seats
pub mod Joining
