pub mod Kinds
pub mod Lms
pub mod Keys
pub mod Leaves
pub mod Nodes
pub use Rattle.lms_ots.specs.Ots
