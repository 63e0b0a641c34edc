pub mod Slots
pub mod Lists
pub mod Result
pub mod Parts
pub mod ConflictText
pub mod Printing
