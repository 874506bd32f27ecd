pub mod Graft
pub mod Writes
pub mod Meets
pub mod Theorems
