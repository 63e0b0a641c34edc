pub mod Lengths
pub mod Based
pub mod Alike
pub mod Told
pub mod Grown
