pub mod Standing
pub mod Held
pub mod Taking
