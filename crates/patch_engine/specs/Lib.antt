pub mod Meaning
pub mod Refusals
pub mod Showing
pub mod Promise
