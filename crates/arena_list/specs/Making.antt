-- A list is made.
pub mod Made
