pub mod Worked
pub mod Words
pub mod Rule
pub mod Marks
pub mod Steps
pub mod Calls
pub mod Making
pub mod Closing
