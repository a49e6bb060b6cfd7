pub mod Modes
pub mod Layout
pub mod Faults
pub mod Rules
pub mod Searches
pub mod Views
