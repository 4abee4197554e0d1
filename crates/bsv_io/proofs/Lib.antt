pub mod Adding
pub mod Appended
pub mod Counted
mod Fronts
pub mod Moved
pub mod NoFaults
pub mod Pieces
pub mod Readings
pub mod Sequences
mod Written
