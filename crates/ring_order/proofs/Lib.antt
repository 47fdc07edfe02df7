pub mod RowLemmas
mod TailLemmas
pub mod KeyOrder
pub mod Top
pub mod CountLemmas
pub mod NearestLaws
mod HintLemmas
