pub mod Queries
pub mod Lines
pub mod Views
