pub mod Asked
pub mod Ending
