pub mod Told
pub mod ListWatch
