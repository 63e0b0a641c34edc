pub mod Accepting
pub mod Named
pub mod Parts
pub mod Reading
pub mod Walking
