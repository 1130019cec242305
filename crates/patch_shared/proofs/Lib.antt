pub mod Keeping
pub mod Lengths
pub mod Told
pub mod Calls
pub mod Served
pub mod Resting
pub mod Joined
