pub mod Counted
pub mod Texts
pub mod Following
pub mod Stopping
pub mod Faults
