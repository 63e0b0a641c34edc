pub mod Changes
pub mod Joining
pub mod Laws
pub mod Worked
