pub mod NumberLemmas
pub mod HoldLemmas
pub mod SoundLemmas
pub mod MonitorLemmas
pub mod TouchLemmas
pub mod AddLemmas
pub mod EndLemmas
pub mod NoteLemmas
pub mod ExpireLemmas
pub mod TickLemmas
pub mod AccuseLemmas
pub mod SlotLemmas
mod PassLemmas
