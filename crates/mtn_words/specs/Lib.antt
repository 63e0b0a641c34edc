pub mod Words
pub mod Options
pub mod Positionals
pub mod Calls
