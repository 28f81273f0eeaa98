pub mod Digits
pub mod WritesAndReads
