pub mod Hands
pub mod Putting
pub mod Reading
