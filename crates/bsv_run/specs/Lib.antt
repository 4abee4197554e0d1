pub mod Gathered
pub mod Interrupted
pub mod Reading
pub mod Reports
pub mod Running
pub mod Traces
