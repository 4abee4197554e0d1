-- The urgency order: what it is, which answer tells which fault, and how the code goes about it.
pub mod Orders
pub mod Answers
pub mod Acting
pub mod Stages
