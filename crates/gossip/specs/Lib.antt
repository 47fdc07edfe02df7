pub mod Differ
pub mod Partners
