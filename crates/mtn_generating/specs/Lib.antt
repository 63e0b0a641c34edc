pub mod Numbered
pub mod Generating
pub mod Unfit
