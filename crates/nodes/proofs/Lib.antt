pub mod Views
pub mod Listing
pub mod Shifted
pub mod Places
pub mod Parted
