pub mod Growing
pub mod Laws
pub mod Modules
pub mod Programs
pub mod Seen
