pub mod Telling
pub mod Covering
pub mod Winning
pub mod Local
pub mod Stable
pub mod Extending
pub mod ByWay
pub mod Tests
