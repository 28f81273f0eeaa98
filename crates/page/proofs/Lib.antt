pub mod Pictures
pub mod TrueTimes
pub mod InOrder
pub mod PickedFirst
pub mod Shows
pub mod Demand1
pub mod Promises
