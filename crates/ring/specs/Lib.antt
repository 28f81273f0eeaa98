pub mod Limits
pub mod Slot
pub mod Newest
pub mod Lent
pub mod Calls
pub mod Told
