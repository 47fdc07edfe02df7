mod Rows
pub mod NumberLemmas
pub mod HeadLemmas
pub mod WordLemmas
pub mod HexWords
pub mod FrameLemmas
pub mod FieldLemmas
pub mod DigitLemmas
pub mod SpellingLemmas
pub mod ShapeLemmas
pub mod TableLemmas
pub mod SpacedLemmas
pub mod GlanceLemmas
