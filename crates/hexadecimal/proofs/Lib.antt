pub mod Unhexing
