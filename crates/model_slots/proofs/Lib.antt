pub mod Lists
pub mod Keeps
pub mod Promised
pub mod Words
pub mod Told
