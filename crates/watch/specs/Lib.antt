pub mod Setting
pub mod Answers
pub mod Told
pub mod Turn
pub mod Calls
pub mod Output
pub mod TrueRows
