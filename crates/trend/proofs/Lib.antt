pub mod Differences
pub mod FigureFits
pub mod Trends
pub mod TotalsAsTrend
pub mod Demand1
pub mod Promises
