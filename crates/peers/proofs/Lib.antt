pub mod RangeLemmas
pub mod FirstLemmas
