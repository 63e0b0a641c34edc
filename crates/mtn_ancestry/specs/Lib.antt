pub mod Ancestors
pub mod Log
pub mod Members
pub mod Sets
pub mod Places
pub mod Walking
pub mod Outcome
