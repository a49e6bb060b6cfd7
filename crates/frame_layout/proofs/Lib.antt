pub mod Places
pub mod Wholes
pub mod Heads
pub mod Chunks
pub mod Whole
