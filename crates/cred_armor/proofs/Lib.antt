pub mod Begun
pub mod Framing
pub mod Sizes
pub mod Spelling
