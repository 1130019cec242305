pub mod Json
pub mod Numerals
pub mod Rows
pub mod Parsing
pub mod Cutting
pub mod Blocks
pub mod Lanes
pub mod Joining
