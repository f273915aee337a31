pub mod Counted
pub mod Drive
pub mod Laws
pub mod Seats
pub mod Turns
