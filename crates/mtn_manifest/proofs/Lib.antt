pub mod Prefixes
pub mod Columns
