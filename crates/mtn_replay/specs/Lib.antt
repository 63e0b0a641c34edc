pub mod Making
pub mod Lawful
pub mod Graphs
pub mod Files
pub mod Texts
pub mod Accepting
pub mod Certificates
