pub mod Inner
pub mod InnerPart
pub mod WorkedInnerPart
