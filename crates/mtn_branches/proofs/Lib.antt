pub mod Images
pub mod HeadLemmas
