pub mod BatchIds
pub mod Views
pub mod Keeps
pub mod Rests
pub mod Moments
pub mod Own
pub mod Apart
pub mod PlainWords
mod Rows
