pub mod Armoring
pub mod CredentialText
pub mod RefusedText
pub mod Trimming
pub mod WorkedArmor
