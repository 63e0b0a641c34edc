pub mod HeadLemmas
pub mod MismatchLemmas
pub mod ReadsLemmas
pub mod KeptReading
pub mod AllReading
pub mod CertReading
pub mod InputReading
pub mod UnfitReading
