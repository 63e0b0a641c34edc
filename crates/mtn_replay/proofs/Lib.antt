pub mod Places
pub mod Steps
pub mod Histories
pub mod FileLemmas
pub mod CertLemmas
