pub mod Nets
pub mod Equations
pub mod Placing
pub mod AtHand
pub mod Unasked
pub mod ShowsByNet
