pub mod Row
pub mod Bytes
pub mod Ones
