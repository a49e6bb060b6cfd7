pub mod Numbers
pub mod Options
pub mod Units
pub mod Located
pub mod Checked
pub mod Carried
pub mod Counted
pub mod Below
