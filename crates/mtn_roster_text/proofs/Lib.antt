pub mod Tables
pub mod Columns
pub mod Lines
pub mod Walked
pub mod AllMarks
