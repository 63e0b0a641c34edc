pub mod Telling
pub mod Shapes
pub mod SomePackets
