-- What a call of one seat makes of its view.
pub mod Outcomes
pub mod Seats
