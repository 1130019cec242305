mod AsBox
pub mod Between
pub mod Telling
pub mod Whole
