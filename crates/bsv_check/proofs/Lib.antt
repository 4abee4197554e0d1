pub mod Answered
pub mod RightAligned
pub mod RightProgram
pub mod RightRuns
