pub mod SlotLaws
pub mod SoundLaws
pub mod LayoutLaws
pub mod FindLaws
pub mod WordLaws
mod Sizes
pub mod FarFields
