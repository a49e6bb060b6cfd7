pub mod Refusals
pub mod Frames
pub mod Filling
