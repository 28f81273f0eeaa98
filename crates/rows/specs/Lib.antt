pub mod Answers
pub mod Ascii
pub mod Row
pub mod Appended
pub mod Calls
pub mod Told
