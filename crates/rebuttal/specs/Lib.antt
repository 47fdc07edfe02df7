pub mod Rebuttals
pub use Rattle.ff_ids.specs.Masks
