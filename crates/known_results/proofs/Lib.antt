pub mod Slots
pub mod Beginnings
pub mod Refused
