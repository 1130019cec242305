pub mod Room
pub mod Candidates
pub mod Laws
pub mod LawsBelow
pub mod Ahead
pub mod Putting
