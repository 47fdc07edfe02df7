pub mod Knowns
pub mod Sets
pub use Rattle.records.specs.Spelling as record_spelling
pub use Rattle.records.specs.Signing
pub use Rattle.record_slots.specs.Held
pub use Rattle.record_slots.specs.Pages
pub use Rattle.record_slots.specs.Picks
pub use Rattle.record_slots.specs.Slots
