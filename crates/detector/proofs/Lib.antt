mod Rows
pub mod SlotLemmas
pub mod HistoryLemmas
pub mod WatchLemmas
pub mod LawLemmas
pub mod NonceLemmas
