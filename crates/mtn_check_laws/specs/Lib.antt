pub mod Records
pub mod Sets
pub mod Fronts
pub mod FirstDamage
