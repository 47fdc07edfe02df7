pub mod SignatureLemmas
pub mod TurnLemmas
pub mod VerifyLemmas
pub mod RangeLemmas
pub mod MainLemmas
pub mod RunLemmas
pub mod RestLemmas
