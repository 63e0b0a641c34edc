pub mod Below
pub mod Positions
