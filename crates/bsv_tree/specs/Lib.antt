pub mod tree
pub mod meaning
pub mod carrying
