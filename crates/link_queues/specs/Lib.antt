pub mod Waiting
pub mod Senders
pub mod Queues
pub mod Runs
