pub mod Spelling
pub mod Grammar
pub use Rattle.records.specs.Spelling as record_spelling
pub use Rattle.records.specs.Grammar as record_grammar
pub use Rattle.ff_ids.specs.Summaries
