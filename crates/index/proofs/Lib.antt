pub mod Meeting
pub mod Sweeping
pub mod Stepping
