pub mod Outcome
pub mod Marks
pub mod Pages
pub mod Pairs
pub mod Nodes
pub mod Paths
