mod Handing
mod Rosters
mod Signed
mod Rightly
mod InCalls
mod Stopped
mod InWorlds
mod CameIn
mod Reaching
mod Bounded
mod Lawful
mod Written
mod SignedFirst
mod Living
mod OwnBodies
mod Places
mod Marks
mod Marking
mod SignedBefore
mod Origins
mod Verified
mod AsCalled
mod Removing
mod Sent
mod Answered
pub mod Viewed
mod Flowing
pub mod FlowWalks
mod FirstForged
mod Spared
pub mod ForgedLines
mod Keyed
mod Rows
pub mod Walking
