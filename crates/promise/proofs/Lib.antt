pub mod Names
pub mod Maps
pub mod Slotting
pub mod Soon
pub mod Promised
