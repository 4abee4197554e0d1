pub mod CallSites
pub mod Starts
pub mod Ports
