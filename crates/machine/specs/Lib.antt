pub mod State
pub mod Choices
pub mod Items
pub mod Steps
pub mod Kept
pub mod Calls
pub mod Runs
pub mod Told
