pub mod InnerBytes
pub mod InnerFields
pub mod InnerReading
pub mod InnerWriting
pub mod Parts
