pub mod Join
pub mod Pairing
