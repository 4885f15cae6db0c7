pub mod Begun
pub mod Feeding
pub mod Fits
pub mod Frame
pub mod FrameHead
pub mod Head
pub mod Refusal
pub mod Spelling
