pub mod Numbers
pub mod Refused
pub mod First
pub mod Call
pub mod Demand1
