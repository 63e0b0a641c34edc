pub mod Marking
pub mod Graph
pub mod Parts
