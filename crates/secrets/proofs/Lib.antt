pub mod StoreTags
