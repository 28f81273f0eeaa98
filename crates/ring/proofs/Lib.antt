pub mod Fields
pub mod Around
pub mod OnesOfPart
pub mod Refused
pub mod Demand1
pub mod Promises
pub mod OnlySlotsCount
