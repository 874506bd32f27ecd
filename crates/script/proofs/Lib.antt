pub mod DigitSteps
pub mod WordSteps
pub mod Pieces
