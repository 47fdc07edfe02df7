pub mod Silence
pub mod Watching
pub mod Successors
pub mod Slots
pub mod Kept
pub mod Laws
