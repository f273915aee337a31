pub mod StackTypes
pub mod Families
pub mod Merging
pub mod Assigning
pub mod Ranks
pub mod Samples
