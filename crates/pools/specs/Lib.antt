pub mod Contents
pub mod Spare
