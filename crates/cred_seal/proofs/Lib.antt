pub mod Bodies
mod DiceWords
pub mod Once
pub mod RoundTrips
pub mod SealedTexts
