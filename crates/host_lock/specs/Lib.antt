pub mod Views
pub mod Steps
pub mod Rule
pub mod Known
pub mod Tallies
