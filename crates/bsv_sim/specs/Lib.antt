pub mod Simulation
pub mod Inputs
pub mod Signals
pub mod AtHand
pub mod Stoppers
pub mod Events
pub mod Steps
