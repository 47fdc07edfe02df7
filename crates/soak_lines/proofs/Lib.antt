mod Rows
pub mod NameLemmas
pub mod PlaceLemmas
pub mod TurnLemmas
pub mod DrawLemmas
pub mod ScheduleLemmas
pub mod CountLemmas
