pub mod Deepest
pub mod Definitions
pub mod FirstFaults
pub mod Malformed
pub mod Reaching
