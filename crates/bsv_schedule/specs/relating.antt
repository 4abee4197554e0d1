-- How the elements of a design relate.
pub mod Relating
pub mod Elements
pub mod Relations
pub mod Related
pub mod Uses
pub mod Users
pub mod Rows
pub mod Blocks
pub mod Marks
