pub mod Sharing
pub mod Keys
pub mod Operands
pub mod Simplifying
pub mod Outputs
pub mod Folding
pub mod Moving
pub mod Ordering
