pub mod Sorting
pub mod Orders
pub mod Telling
pub mod Placing
pub mod Wanting
pub mod Members
