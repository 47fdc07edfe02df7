pub mod Plays
pub mod Playing
