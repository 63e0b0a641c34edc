pub mod Numbered
pub mod Growing
