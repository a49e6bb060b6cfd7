pub mod Files
pub mod Cursors
pub mod Searches
pub mod Faults
pub mod Rules
pub mod Pending
pub mod Opens
