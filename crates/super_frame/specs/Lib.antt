pub mod Parts
pub mod Reads
pub mod Carried
pub mod Progress
