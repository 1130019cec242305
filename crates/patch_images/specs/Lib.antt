pub mod Gaps
pub mod Images
