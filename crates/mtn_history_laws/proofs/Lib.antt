pub mod Telling
pub mod Scalars
pub mod Growing
pub mod Born
