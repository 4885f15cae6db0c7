pub mod Distinct
pub mod ExpiryLemmas
pub mod HistoryLemmas
pub mod LiveLemmas
pub mod Padding
pub mod PairLemmas
pub mod PurgeLemmas
pub mod StandsForLemmas
