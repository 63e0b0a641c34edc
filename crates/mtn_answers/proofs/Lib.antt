pub mod Lists
pub mod Orders
pub mod Marks
pub mod Unique
pub mod Deciding
pub mod Existing
pub mod MarksExist
