pub mod Cutting
pub mod Caching
pub mod Walks
pub mod Filing
