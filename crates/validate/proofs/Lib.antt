pub mod TableLemmas
pub mod VerdictLemmas
