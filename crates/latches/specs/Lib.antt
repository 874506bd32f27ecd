pub mod Rules
pub mod Smallest
pub mod Layout
