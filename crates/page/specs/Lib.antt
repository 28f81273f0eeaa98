pub mod Answers
pub mod Ages
pub mod Shown
pub mod Calls
pub mod Both
pub mod Picked
pub mod Told
