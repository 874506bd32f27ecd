pub mod Ghosts
pub mod Seats
pub mod Courses
pub mod Nexts
pub mod Invariant
pub mod Changes
pub mod Effects
