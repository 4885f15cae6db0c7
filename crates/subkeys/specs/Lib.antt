pub mod DataKey
pub mod KeyRefused
pub mod Prepared
pub mod Subkeys
