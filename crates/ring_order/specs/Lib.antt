pub mod Rows
pub mod Nearest
pub mod Hashed
pub mod Ranks
