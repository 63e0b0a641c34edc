pub mod Branches
pub mod Graphs
pub mod Images
