pub mod Decimals
pub mod Requests
pub mod Answers
pub mod Texts
