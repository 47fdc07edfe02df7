pub mod Signing
pub mod Lives
pub mod Signs
pub mod Played
