pub mod Tables
pub mod Forms
pub mod Steps
