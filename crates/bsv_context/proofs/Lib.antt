pub mod Keywords
pub mod Layers
pub mod Placed
pub mod Powers
pub mod TypesBack
