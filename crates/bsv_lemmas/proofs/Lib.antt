pub mod Choices
pub mod Digits
pub mod Lists
pub mod Numbers
pub mod Places
pub mod Sums
pub mod Truths
pub mod Turns
