pub mod Policy
pub mod Block
pub mod Ahead
