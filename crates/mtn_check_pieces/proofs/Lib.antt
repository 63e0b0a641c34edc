pub mod Listing
pub mod ByNode
pub mod Answering
pub mod Marked
