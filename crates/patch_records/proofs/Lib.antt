pub mod Reading
pub mod Bytes
pub mod Drawing
