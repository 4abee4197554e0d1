pub mod Beyond
pub mod Copied
pub mod Naming
pub mod Put
pub mod Sectioned
pub mod Suited
