mod PartLemmas
mod LookLemmas
mod HandLemmas
