pub mod Credentials
pub mod Load
pub mod Presented
pub mod Words
pub mod WorkedWords
