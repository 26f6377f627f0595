pub mod Alone
pub mod Crossing
pub mod Joining
pub mod Pairing
pub mod Swapping
