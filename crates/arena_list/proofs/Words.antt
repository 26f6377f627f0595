-- The list, and how its words write it down.
pub mod Lists
pub mod Few
pub mod Links
pub mod OneList
