-- The list, and how its words write it down.
pub mod Nodes
pub mod Written
pub mod Core
