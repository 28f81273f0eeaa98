pub mod Row
pub mod Rule
pub mod RowKept
pub mod RunParts
pub mod Calls
pub mod Beside
pub mod OneByOne
pub mod Told
