pub mod Counts
pub mod NewKeys
pub mod Tops
