pub mod Byte
pub mod Values
pub mod Numbers
pub mod Unique
pub mod Feeding
pub mod Row
pub mod Blocks
pub mod Sixteen
