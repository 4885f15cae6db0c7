pub mod Body
pub mod Credential
pub mod OpenRefused
pub mod OpeningRules
pub mod RefusedText
pub mod Unsealed
