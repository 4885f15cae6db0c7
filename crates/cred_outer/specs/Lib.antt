pub mod BodyParts
pub mod OuterPart
pub mod OuterRules
pub mod RefusedText
