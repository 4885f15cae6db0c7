pub mod BoolLemmas
pub mod DigitLemmas
pub mod LineLemmas
pub mod MemberLemmas
pub mod NameLemmas
pub mod PieceLemmas
pub mod TableLemmas
