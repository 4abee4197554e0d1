mod Fronts
mod Meeting
mod Numbered
pub mod meaning
