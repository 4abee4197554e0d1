pub mod Pairs
pub mod Groups
pub mod Spread
pub mod Lifted
pub mod Sound
pub mod ElementLaws
pub mod Fitting
pub mod Turns
