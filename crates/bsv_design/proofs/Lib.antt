pub mod Asked
pub mod Named
pub mod Dotted
pub mod Bodies
pub mod Elements
