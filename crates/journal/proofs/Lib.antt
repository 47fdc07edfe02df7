mod Rows
mod TurnRows
pub mod WordLemmas
pub mod HexWords
pub mod Steps
pub mod Rules
pub mod Spelled
pub mod Events
pub mod Firm
pub mod Firmness
pub mod Failing
pub mod Turns
