pub mod Older
pub mod PartNext
pub mod NextsTold
pub mod Carried
pub mod Onward
