pub mod KeyLemmas
pub mod SlotLemmas
pub mod LengthLemmas
pub mod ReadyLemmas
pub mod ListedLemmas
pub mod PickLemmas
pub mod Rows
