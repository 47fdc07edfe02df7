pub mod Chains
pub mod Opening
pub mod Buffers
