pub mod Fields
pub mod Apart
pub mod PathTold
pub mod Entries
pub mod EntriesApart
pub mod Records
pub mod RecordsApart
pub mod Bounds
