-- What holds between any two steps.
pub mod Views
pub mod Founded
pub mod Holds
