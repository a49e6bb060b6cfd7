pub mod Hex
pub mod Verdicts
