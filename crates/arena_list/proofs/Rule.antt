-- What holds between any two steps.
pub mod Moved
pub mod Opening
