pub mod Places
pub mod Members
pub mod State
pub mod Rearranged
pub mod Names
pub mod Changes
pub mod Refusal
pub mod Turns
