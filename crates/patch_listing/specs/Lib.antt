pub mod Listing
pub mod Pictures
pub mod Statting
