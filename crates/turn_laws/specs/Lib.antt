pub mod Resting
pub mod Showing
