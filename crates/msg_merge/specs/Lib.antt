pub mod Extents
pub mod Merging
pub mod Across
