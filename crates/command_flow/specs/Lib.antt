pub mod Events
pub mod Flow
pub mod Laws
pub mod Orders
pub mod Run
pub mod State
pub mod Turns
