pub mod GoodHistories
pub mod Starred
