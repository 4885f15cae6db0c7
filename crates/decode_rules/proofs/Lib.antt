pub mod Findings
pub mod PreparedTexts
