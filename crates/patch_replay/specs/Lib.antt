pub mod World
pub mod Answering
pub mod Replay
pub mod Laws
pub mod CachedDisk
pub mod Streams
pub mod Growing
