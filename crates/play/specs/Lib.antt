pub mod Answers
pub mod Taking
pub mod PlaysBy
pub mod Plays
pub mod Named
