pub mod Births
pub mod Parents
pub mod Sides
pub mod Given
pub mod Plans
