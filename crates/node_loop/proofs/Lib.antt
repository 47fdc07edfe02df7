pub mod CourseLemmas
pub mod LinkLemmas
pub mod TellLemmas
pub mod SendLemmas
pub mod ServeLemmas
pub mod LineLemmas
pub mod GatherLemmas
pub mod CallLemmas
pub mod UnsignedLemmas
pub mod TurnLemmas
pub mod ClockLemmas
mod ExpectLemmas
mod Rows
pub mod JournalLemmas
