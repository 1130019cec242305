pub mod Books
pub mod Calling
pub mod Refusals
pub mod Conversations
pub mod Serving
