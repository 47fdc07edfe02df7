pub mod Certified
pub mod Table
