pub mod Bits
pub mod Body
pub mod Cursors
pub mod Formats
pub mod Faults
pub mod Calls
pub mod Kept
