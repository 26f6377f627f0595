mod Placing
pub mod Names
mod Parts
mod States
mod Chunks
mod Keeping
