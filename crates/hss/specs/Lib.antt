pub mod Keys
pub mod Hss
pub mod Pairs
pub mod Trees
