pub mod Truths
pub mod Stoppers
pub mod Elements
pub mod Rules
pub mod Asserted
pub mod Answering
pub mod Attributes
pub mod Alike
