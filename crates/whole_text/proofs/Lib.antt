pub mod GatherLemmas
pub mod WholeLemmas
pub mod ShapeLemmas
