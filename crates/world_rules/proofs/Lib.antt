pub mod Rows
mod Stops
mod Rounds
pub mod CallSteps
pub mod OnDisks
pub mod SoFar
pub mod LineSteps
pub mod Once
pub mod Telling
pub mod Alike
