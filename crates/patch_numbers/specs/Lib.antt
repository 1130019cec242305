pub mod BlockSets
pub mod NumberList
pub mod Rising
pub mod Runs
