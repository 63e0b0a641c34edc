pub mod Siblings
pub mod Reading
