pub mod NamedFiles
pub mod Entries
pub mod Maps
pub mod Growth
pub mod PlainLaws
