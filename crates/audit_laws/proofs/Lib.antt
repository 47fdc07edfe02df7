pub mod CourseLemmas
pub mod ComingLemmas
pub mod BodyLemmas
pub mod LearnedLemmas
pub mod ApartLemmas
