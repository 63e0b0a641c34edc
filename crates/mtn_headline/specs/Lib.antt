pub mod Merging
pub mod Saying
