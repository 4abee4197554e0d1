pub mod Depths
pub mod Names
pub mod Packages
pub mod Spans
