pub mod Texts
pub mod Words
pub mod Kinds
pub mod Grammar
pub mod Spelling
pub mod Places
pub mod Failing
pub mod Turns
