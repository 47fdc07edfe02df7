mod LineLemmas
pub mod VerdictLemmas
pub mod TextLemmas
