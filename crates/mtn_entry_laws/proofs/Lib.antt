pub mod Short
pub mod TreeEntries
pub mod LawfulEntries
