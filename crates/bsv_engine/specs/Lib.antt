pub mod Codes
pub mod Engines
pub mod Numbers
pub mod Rights
pub mod Runs
pub mod Cells
pub mod Running
pub mod Widths
