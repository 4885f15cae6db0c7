pub mod Expiries
pub mod Groups
pub mod IndexedPairs
