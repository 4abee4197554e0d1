pub mod parts
pub mod design
pub mod scheme
