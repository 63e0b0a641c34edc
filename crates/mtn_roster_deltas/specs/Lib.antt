pub mod Chain
pub mod Spelled
pub mod Difference
pub mod Numbering
pub mod Parts
pub mod Noting
pub mod Laws
pub mod Beside
