pub mod Desk
pub mod Round
pub mod Running
