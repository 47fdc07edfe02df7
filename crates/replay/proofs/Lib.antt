pub mod TurnLemmas
pub mod PlaceLemmas
pub mod EventLemmas
