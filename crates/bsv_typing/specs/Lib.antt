pub mod Forms
pub mod Laws
pub mod Operands
pub mod Places
pub mod Seen
pub mod Typing
