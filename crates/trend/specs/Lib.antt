pub mod Trend
pub mod Told
