pub mod Command
pub mod Reply
pub mod Shared
pub mod Value
pub mod Asking
