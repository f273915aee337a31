pub mod Heaps
pub mod Streams
pub mod Headers
pub mod Reading
