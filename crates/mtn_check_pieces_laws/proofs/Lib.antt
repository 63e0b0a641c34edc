pub mod Behind
pub mod Backward
pub mod Agreed
