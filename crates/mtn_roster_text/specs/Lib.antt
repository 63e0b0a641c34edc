pub mod RosterText
pub mod Naming
pub mod Positions
