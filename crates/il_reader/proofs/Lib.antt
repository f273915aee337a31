pub mod Choices
pub mod Paths
pub mod Runs
pub mod Chains
pub mod Heads
pub mod Distances
