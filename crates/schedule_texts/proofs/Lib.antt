mod Rows
pub mod FieldLemmas
pub mod TableLemmas
pub mod KindLemmas
mod KitRows
pub mod KitReadingLemmas
mod HeadRows
pub mod StateLemmas
pub mod HeadWalks
