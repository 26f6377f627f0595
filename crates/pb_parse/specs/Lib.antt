pub mod Contents
pub mod Reading
pub mod Parsing
pub mod Numbers
pub mod Whole
pub mod Short
pub mod Costs
