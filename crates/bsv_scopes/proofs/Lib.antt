pub mod Entries
pub mod Layers
pub mod Names
pub mod Tables
