mod Wraps
mod Conversions
pub mod Spelled
pub mod FirstFault
pub mod Characters
mod Folds
