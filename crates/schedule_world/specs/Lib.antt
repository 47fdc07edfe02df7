pub mod Kinds
pub mod Rows
pub mod Grammar
pub mod Laws
