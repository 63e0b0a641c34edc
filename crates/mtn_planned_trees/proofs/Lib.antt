pub mod Lasting
pub mod Ordering
pub mod Planned
pub mod Births
