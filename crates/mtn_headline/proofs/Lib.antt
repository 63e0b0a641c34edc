pub mod Ids
pub mod Merged
pub mod Saying
