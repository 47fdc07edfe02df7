mod Rows
pub mod FormLemmas
