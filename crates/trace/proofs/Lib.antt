pub mod LifeLemmas
pub mod WalkLemmas
pub mod UprightLemmas
pub mod ReplyLemmas
pub mod AnswerLemmas
pub mod SinceLemmas
pub mod TextLemmas
pub mod WrittenLemmas
pub mod JustifiedLemmas
pub mod UnfedLemmas
mod Rows
