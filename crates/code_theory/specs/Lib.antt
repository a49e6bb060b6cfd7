pub mod Codeword
pub mod Laws
pub mod Sequences
