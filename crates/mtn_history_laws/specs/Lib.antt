pub mod History
pub mod Scalars
