pub mod Placed
pub mod Flattening
pub mod SourcesAtHand
