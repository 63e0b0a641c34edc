pub mod Queries
pub mod Places
