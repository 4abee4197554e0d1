pub mod Given
pub mod Scopes
pub mod Seen
