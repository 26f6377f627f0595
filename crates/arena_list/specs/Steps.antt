-- What a single step does and tells.
pub mod After
pub mod Events
pub mod Moments
pub mod Tales
