pub mod Numbers
pub mod Packets
pub mod Jobs
pub mod Texts
pub mod Flags
