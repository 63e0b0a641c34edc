pub mod Ordered
pub mod Certs
pub mod Names
pub mod Stanzas
pub mod KeyTexting
pub mod FreshKeys
