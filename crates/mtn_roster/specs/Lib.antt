pub mod Tree
pub mod Building
pub mod Index
pub mod Walk
pub mod Attrs
