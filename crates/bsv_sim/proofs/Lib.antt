pub mod Tables
pub mod NetLists
pub mod Asked
pub mod Told
pub mod Lists
pub mod Happening
pub mod Opening
