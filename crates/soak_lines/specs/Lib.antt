pub mod Workload
pub mod Places
pub mod Turns
pub mod Schedule
