pub mod Grounds
pub mod Bodies
pub mod FireBuilder
pub mod Nets
pub mod Firing
pub mod AtHand
