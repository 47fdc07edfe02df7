pub mod Switching
pub mod Answering
pub mod Masks
