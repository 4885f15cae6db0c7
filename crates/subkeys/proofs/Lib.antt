pub mod DataKeys
pub mod Sizes
