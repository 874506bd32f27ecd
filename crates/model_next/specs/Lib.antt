pub mod Bytes
pub mod Look
pub mod Next
pub mod Walk
pub mod Laws
pub mod Examples
