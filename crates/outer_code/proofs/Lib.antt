pub mod Coding
pub mod Clean
pub mod Results
pub mod Seeking
