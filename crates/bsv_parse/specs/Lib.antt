pub mod Definitions
pub mod Depths
pub mod ModuleTrees
pub mod Modules
pub mod Packages
pub mod Places
pub mod Reads
