pub mod Marks
pub mod Ways
pub mod Rule
pub mod ScalarLog
