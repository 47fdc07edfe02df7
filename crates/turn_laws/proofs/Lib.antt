pub mod OriginLemmas
pub mod RemovalLemmas
pub mod ReplyLemmas
pub mod DepartureLemmas
pub mod SignedLemmas
pub mod SentLemmas
pub mod JournalLemmas
pub mod ShowingLemmas
