pub mod Formed
pub mod Joining
pub mod Joined
