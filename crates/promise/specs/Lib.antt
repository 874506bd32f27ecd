pub mod Map
pub mod Answers
pub mod Slots
pub mod Waiting
pub mod Promise
