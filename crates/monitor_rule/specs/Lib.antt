pub mod Joined
pub mod Sorted
pub mod Listed
pub mod Slots
