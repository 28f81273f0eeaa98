pub mod SolidHistories
pub mod Leaving
pub mod Counting
pub mod Storing
pub mod Saving
