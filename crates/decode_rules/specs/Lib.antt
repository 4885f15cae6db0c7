pub mod CallerRules
pub mod DecodeReply
pub mod Finding
pub mod Prepared
pub mod Reply
pub mod Terms
pub mod VerdictRules
