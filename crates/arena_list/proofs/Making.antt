-- A list is made.
pub mod FirstWords
pub mod Dealing
pub mod Placing
pub mod Filling
pub mod FirstSeats
