pub mod Absorbed
pub mod Hasher
pub mod Hmac
pub mod WorkedMacs
