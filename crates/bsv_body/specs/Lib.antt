pub mod Leaving
pub mod Nodes
pub mod Flat
pub mod AtHand
pub mod Opening
pub mod Bodies
