pub mod Nexts
pub mod AtHand
