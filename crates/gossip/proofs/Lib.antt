pub mod Rows
pub mod Fronts
pub mod Successors
pub mod Within
