pub mod Causes
pub mod Rosters
pub mod Unfed
pub mod Owing
pub mod Soaking
pub mod Summaries
pub mod SoakTurning
pub mod Stages
