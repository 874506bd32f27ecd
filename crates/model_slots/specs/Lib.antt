pub mod Slots
pub mod Laws
pub mod Words
pub mod Told
