pub mod Damages
pub mod Refusing
pub mod Listing
pub mod ParentsLemmas
pub mod Between
