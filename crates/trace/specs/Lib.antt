pub mod Answers
pub mod Walk
pub mod Lives
pub mod Written
pub mod Replies
