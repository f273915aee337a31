pub mod Opcodes
pub mod Instructions
pub mod Offsets
pub mod Sections
pub mod Bodies
pub mod Reading
