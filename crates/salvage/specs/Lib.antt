pub mod Altered
pub mod Salvaged
pub mod Rebuilt
pub mod Calls
pub mod After
pub mod Mended
pub mod Steps
pub mod Told
