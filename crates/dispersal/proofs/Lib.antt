pub mod Every
pub mod Recurring
pub mod Windows
pub mod Places
pub mod Added
