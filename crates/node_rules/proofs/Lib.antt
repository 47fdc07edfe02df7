pub mod Rows
mod Rounds
pub mod Small
pub mod Retiring
pub mod Carrying
pub mod Keeping
pub mod Telling
pub mod OwnNote
pub mod OwnKey
pub mod Accusations
pub mod Handling
pub mod Ticks
pub mod Gathering
pub mod Sendings
pub mod GoingOut
pub mod Gains
pub mod RingLemmas
pub mod GoingOn
pub mod Called
pub mod Stopping
pub mod Leaving
pub mod Allowed
mod Growth
mod Upholding
mod Correctness
mod Witnesses
mod Accusers
mod KeptHeld
mod KeptNodes
mod Removed
mod Exchanges
mod WholePages
mod OneExchange
mod Walks
mod Forms
mod Sendable
mod Addressing
pub mod ExchangeRows
mod WideRows
mod LeavingRows
mod HealRows
pub mod SentRecords
mod Plain
mod ComingBack
mod Spans
pub mod Sources
pub mod PingsTold
pub mod LearnedLives
mod Whole
pub mod Told
mod Readable
mod Spelled
mod OwnRecords
