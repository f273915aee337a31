pub mod Faults
pub mod Files
pub mod Found
pub mod Sink
pub mod System
