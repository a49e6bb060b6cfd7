pub mod Transposed
pub mod Undone
