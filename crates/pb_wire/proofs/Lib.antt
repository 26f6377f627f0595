pub mod Reading
pub mod Window
pub mod Lanes
pub mod Groups
pub mod Spread
pub mod Walking
pub mod Framing
