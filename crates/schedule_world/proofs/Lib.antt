mod Rows
pub mod KindLemmas
pub mod GrammarLemmas
