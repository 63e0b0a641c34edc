pub mod Accepting
pub mod Finding
pub mod Keeping
pub mod Writing
pub mod Reads
