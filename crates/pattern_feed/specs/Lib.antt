pub mod Patterns
pub mod Numbers
pub mod Pending
