pub mod Halts
pub mod Members
pub mod Opening
pub mod Journal
pub mod Spendings
pub mod Running
pub mod Written
