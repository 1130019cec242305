pub mod Baring
pub mod Gapping
