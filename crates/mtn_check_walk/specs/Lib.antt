pub mod Judging
pub mod Stretches
pub mod Walks
