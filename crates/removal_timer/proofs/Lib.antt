pub mod KeptLemmas
mod QueueLemmas
mod SlotLemmas
mod HeldLemmas
mod SortLemmas
mod MarkLemmas
mod TallyLemmas
mod WaitLemmas
