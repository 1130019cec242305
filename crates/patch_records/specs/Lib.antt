pub mod Records
pub mod Exchanges
pub mod Merged
pub mod Lists
pub mod Shapes
