pub mod Parts
pub mod FrameFields
pub mod PointerFields
pub mod SlotFields
pub mod SuperblockFields
pub mod RunFrames
pub mod Limits
