pub mod Lying
pub mod Counting
pub mod Telling
pub mod Testing
pub mod Holding
pub mod Courses
pub mod Opening
pub mod Answers
