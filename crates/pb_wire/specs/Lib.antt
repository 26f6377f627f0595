pub mod Placed
pub mod PlacedRecord
pub mod FramePlaces
pub mod FrameAnswers
