pub mod Env
pub mod Methods
pub mod Seen
pub mod Suffixes
pub mod Written
