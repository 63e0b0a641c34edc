pub mod Certificates
pub mod Order
pub mod Listing
pub mod KeyTables
pub mod GivenTables
pub mod ReadingTables
