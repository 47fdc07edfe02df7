mod Rows
pub mod GrammarLemmas
pub mod PlaceLemmas
