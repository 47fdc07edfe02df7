pub mod KindTables
pub mod Keys
pub mod Parts
pub mod Roots
pub mod Verdicts
pub mod NodeLists
pub mod Signatures
