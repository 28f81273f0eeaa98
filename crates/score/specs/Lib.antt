pub mod Changed
pub mod Near
pub mod Calls
pub mod Black
pub mod Masked
pub mod Rows
pub mod Before
pub mod Told
