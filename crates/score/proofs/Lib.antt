pub mod Counts
pub mod BlackBits
pub mod Near
pub mod Runs
pub mod Refused
mod Reading
pub mod Scored
pub mod ScoredUnderMask
pub mod AsBefore
pub mod MaskLaws
pub mod Demand1
pub mod Promises
