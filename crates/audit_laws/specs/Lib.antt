pub mod Bodies
pub mod Learned
pub mod Coming
pub mod Unfolding
pub mod Learning
pub mod Apart
