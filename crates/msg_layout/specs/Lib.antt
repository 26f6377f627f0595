pub mod Slots
pub mod Layout
pub mod Sound
pub mod Find
pub mod Words
