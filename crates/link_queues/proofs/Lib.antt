mod WaitingLemmas
mod TurnLemmas
pub mod RunLemmas
pub mod CountLemmas
mod Rows
