pub mod Counting
pub mod Heads
pub mod Reading
pub mod Unfit
