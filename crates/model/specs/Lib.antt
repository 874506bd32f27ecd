pub mod Refs
pub mod Bytes
pub mod Tree
pub mod Records
pub mod Holds
pub mod Operations
pub mod Sights
