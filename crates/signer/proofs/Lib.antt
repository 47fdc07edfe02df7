pub mod StepLemmas
pub mod LivesLemmas
pub mod LivingLemmas
pub mod OnwardLemmas
pub mod PlayLemmas
