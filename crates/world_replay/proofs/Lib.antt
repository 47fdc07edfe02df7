pub mod UnfedLemmas
pub mod RosterLemmas
pub mod LineLemmas
pub mod SoakMakingLemmas
pub mod SoakReadingLemmas
pub mod SoakWalkLemmas
pub mod TakeLemmas
