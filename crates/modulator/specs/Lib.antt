pub mod Faults
pub mod Carried
pub mod Fills
pub mod States
pub mod Runs
pub mod Progress
