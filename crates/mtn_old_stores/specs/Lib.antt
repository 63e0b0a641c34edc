pub mod Older
pub mod Migrating
pub mod Laws
pub mod Stores
pub mod Reading
