pub mod Demand1
pub mod Told
