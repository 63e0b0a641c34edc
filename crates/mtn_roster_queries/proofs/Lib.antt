pub mod Marking
pub mod Rostered
pub mod Views
