pub mod Drawn
pub mod KeyOrder
pub mod Listed
pub mod Told
