pub mod Section
pub mod Layout
pub mod Checks
pub mod Reading
