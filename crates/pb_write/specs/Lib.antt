pub mod Puts
pub mod Texts
pub mod Writes
pub mod Waiting
