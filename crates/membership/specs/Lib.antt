pub mod Kept
pub mod Life
pub mod Holds
pub mod Ends
pub mod Touched
pub mod Reports
pub mod Slots
pub mod Ticks
