pub mod Packets
pub mod Takes
