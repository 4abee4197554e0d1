pub mod Names
pub mod Interfaces
pub mod ShowsByModule
pub mod Resetting
pub mod Runs
pub mod Lines
pub mod Modules
pub mod AtHand
