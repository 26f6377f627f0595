-- Values, seen as their marks.
pub mod Image
pub mod OfParts
