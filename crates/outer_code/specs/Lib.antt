pub mod Faults
pub mod Words
pub mod Calls
pub mod Results
pub mod Kinds
