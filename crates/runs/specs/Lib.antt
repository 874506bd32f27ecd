pub mod Runs
pub mod Happened
pub mod Named
