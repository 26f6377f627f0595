-- What a call of one seat makes of its view.
pub mod SeatFacts
pub mod Walks
pub mod Searches
pub mod Sums
