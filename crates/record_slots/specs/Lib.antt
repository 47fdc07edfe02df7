pub mod Held
pub mod Pages
pub mod Picks
pub mod Slots
pub use Rattle.records.specs.Spelling as record_spelling
pub use Rattle.records.specs.Signing
