pub mod Contents
pub mod Sending
pub mod Writing
