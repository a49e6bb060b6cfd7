pub mod Lines
pub mod Plans
pub mod Courses
pub mod Transmissions
pub mod Performances
