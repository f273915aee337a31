pub mod Accepted
pub mod After
pub mod Allowed
pub mod Bounds
pub mod Core
pub mod Fresh
pub mod Replies
pub mod Tables
