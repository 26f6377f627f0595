-- A list is closed.
pub mod OneView
pub mod Collecting
pub mod Ending
pub mod Gathering
pub mod Ended
