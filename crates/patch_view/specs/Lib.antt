pub mod History
pub mod Meaning
pub mod Answers
pub mod Changes
pub mod View
pub mod Laws
