pub mod Adopted
pub mod Pairs
pub mod Released
pub mod Swapped
pub mod Taken
