pub mod Elements
pub mod OddBits
pub mod Orderly
pub mod Parallel
pub mod Seen
