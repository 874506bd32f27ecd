pub mod Bytes
pub mod Reach
