pub mod Quotients
pub mod Coarser
pub mod Coarsens
pub mod Calls
pub mod Steps
pub mod Histories
pub mod Told
