pub mod Walks
pub mod Orders
pub mod Edges
pub mod Table
pub mod Reaching
pub mod Graphs
pub mod Growing
pub mod Ready
