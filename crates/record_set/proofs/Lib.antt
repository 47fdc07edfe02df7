pub mod KeyLemmas
pub mod ListedLemmas
pub mod PickLemmas
pub mod Rows
