pub mod LineLemmas
pub mod WholeLemmas
pub mod LongLemmas
pub mod TraceLemmas
mod Rows
