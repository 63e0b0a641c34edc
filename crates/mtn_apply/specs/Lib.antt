pub mod Old
pub mod Index
pub mod Faults
pub mod Edits
pub mod Spare
pub mod Maps
