pub mod NameLemmas
pub mod TreeLemmas
pub mod FileLemmas
pub mod GoingLemmas
pub mod GrowLemmas
pub mod ToldLemmas
