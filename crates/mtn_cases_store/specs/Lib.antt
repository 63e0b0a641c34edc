pub mod Held
pub mod Ids
