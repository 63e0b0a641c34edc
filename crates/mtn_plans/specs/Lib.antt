pub mod Sides
pub mod Given
pub mod Plans
