pub mod Certifying
pub mod Step
