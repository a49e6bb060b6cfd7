pub mod Digits
pub mod Bounds
pub mod Lines
