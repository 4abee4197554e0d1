pub mod Signals
pub mod Widths
pub mod Modules
pub mod VText
pub mod VClock
pub mod AtHand
