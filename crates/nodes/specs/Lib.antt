pub mod View
pub mod Listed
pub mod Placing
pub mod Kinds
pub mod Kept
pub mod Walking
