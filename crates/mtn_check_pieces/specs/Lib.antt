pub mod Verdict
pub mod Same
pub mod Laws
pub mod Shared
