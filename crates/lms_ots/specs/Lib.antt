pub mod Ots
