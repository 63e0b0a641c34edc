pub mod Answers
pub mod Parents
pub mod Numbering
pub mod Records
pub mod Known
pub mod Given
pub mod Leading
pub mod Hands
