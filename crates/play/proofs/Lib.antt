pub mod TakingLemmas
pub mod TurnLemmas
pub mod JoinLemmas
pub mod RunLemmas
pub mod NamedLemmas
