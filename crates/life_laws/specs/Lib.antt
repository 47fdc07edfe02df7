pub mod Newest
pub mod Sameness
pub mod Removals
