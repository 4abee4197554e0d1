pub mod Zeros
pub mod FirstNodes
pub mod Scene
pub mod Latest
pub mod PortGrowth
pub mod CallSitesFound
pub mod CallSitesTold
pub mod PortTold
