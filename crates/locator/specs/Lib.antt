pub mod Searches
pub mod Roots
pub mod Quotients
pub mod Errors
