pub mod Commas
pub mod Spelt
pub mod Sorting
