pub mod Writing
pub mod RowsFitTheirBuffer
pub mod Demand1
