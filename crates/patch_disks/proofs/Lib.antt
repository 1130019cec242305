mod Asking
pub mod Calling
pub mod Coming
pub mod Going
pub mod Resting
pub mod Rooming
pub mod Saving
pub mod Unused
pub mod Stopping
pub mod Surveyed
pub mod Upgraded
pub mod Concluding
pub mod Filed
