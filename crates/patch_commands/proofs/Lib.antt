pub mod Lengths
pub mod Texts
pub mod Doubling
