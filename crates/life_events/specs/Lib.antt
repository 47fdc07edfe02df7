pub mod Events
pub mod Verdicts
