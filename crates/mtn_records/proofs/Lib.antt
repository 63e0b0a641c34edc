pub mod Reading
pub mod Entering
pub mod Recording
pub mod Lengths
pub mod PathRefused
pub mod Turns
