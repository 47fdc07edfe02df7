pub mod Rows
pub mod Grammar
pub mod Asking
pub mod Answering
pub mod Laws
