pub mod Held
pub mod Pages
pub mod Picks
pub use Rattle.records.specs.Spelling as record_spelling
pub use Rattle.records.specs.Signing
pub use Rattle.record_slots.specs.Held as slots_held
pub use Rattle.record_slots.specs.Pages as slots_pages
pub use Rattle.record_slots.specs.Picks as slots_picks
pub use Rattle.record_slots.specs.Slots
