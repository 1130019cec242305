pub mod Writers
pub mod LineByLine
pub mod Sending
pub mod Unserved
