pub mod BlockSets
pub mod Searching
pub mod Interleaving
pub mod Ranges
