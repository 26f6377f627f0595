-- Values, seen as their marks.
pub mod Pulled
pub mod Marked
pub mod Badges
