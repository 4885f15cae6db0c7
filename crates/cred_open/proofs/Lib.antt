pub mod Bodies
pub mod Once
pub mod Decryption
pub mod OpensOrRefuses
