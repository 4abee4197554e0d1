pub mod Holes
pub mod Simple
pub mod StatementTrees
pub mod Statements
pub mod Types
