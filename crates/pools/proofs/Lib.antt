pub mod Around
pub mod Below
