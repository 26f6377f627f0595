pub mod Batches
pub mod Seats
pub mod Rule
pub mod Moments
pub mod Plays
pub mod Fields
pub mod Laws
pub mod Cache
