pub mod AtHand
pub mod StaysAccepted
