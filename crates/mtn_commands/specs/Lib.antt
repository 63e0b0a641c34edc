pub mod Certifying
pub mod Drafts
pub mod Reading
pub mod Reads
