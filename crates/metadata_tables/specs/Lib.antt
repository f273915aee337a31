pub mod Columns
pub mod Layout
pub mod Reading
pub mod Tables
pub mod Places
