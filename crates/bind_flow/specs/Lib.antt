pub mod Binds
pub mod Flow
pub mod Images
pub mod Laws
pub mod Readings
pub mod State
pub mod Turns
