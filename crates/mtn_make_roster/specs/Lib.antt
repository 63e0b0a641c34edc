pub mod Basis
pub mod Steps
pub mod Limits
