pub mod Fields
pub mod KeyParts
pub mod Records
pub mod Rows
pub mod Signatures
pub mod Telling
