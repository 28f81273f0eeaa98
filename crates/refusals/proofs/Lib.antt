pub mod Laws
pub mod Calls
pub mod Numbers
pub mod OneOutcome
