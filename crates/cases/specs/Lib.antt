pub mod History
pub mod GoodHistory
pub mod Question
pub mod Answering
pub mod Table
