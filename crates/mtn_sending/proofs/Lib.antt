pub mod Adding
pub mod Certs
pub mod Erring
pub mod Packets
pub mod One
pub mod Placed
pub mod Exported
