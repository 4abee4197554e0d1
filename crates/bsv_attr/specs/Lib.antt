pub mod Implicit
pub mod Stopping
pub mod Asserting
pub mod Calling
pub mod Obeying
