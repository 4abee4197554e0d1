pub mod Headers
pub mod Blame
pub mod Checked
pub mod Judged
pub mod JudgedModules
pub mod JudgedSeen
pub mod Rightness
pub mod Seen
