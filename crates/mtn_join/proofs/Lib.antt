pub mod Alike
pub mod BothStand
pub mod Keyed
pub mod LeastFault
pub mod Mates
pub mod Made
