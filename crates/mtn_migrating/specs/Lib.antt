pub mod Migration
pub mod Working
