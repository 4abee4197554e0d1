pub mod Halts
pub mod Lists
pub mod Reading
pub mod Sections
pub mod Suites
pub mod Texts
