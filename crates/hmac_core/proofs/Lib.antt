pub mod Bytes
pub mod Differences
pub mod Keyed
pub mod Sizes
