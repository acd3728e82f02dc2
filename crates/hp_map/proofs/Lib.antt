mod BlocksCompared
mod BlocksDecided
mod Bounds
pub mod MarkLemmas
mod Pictures
pub mod PlaceLemmas
mod PlacesTogether
mod RoundTexts
mod RoundsJoined
pub mod Texts
pub mod Walks
