pub mod Front
pub mod Held
pub mod Risen
