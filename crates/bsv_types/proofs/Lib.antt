pub mod Carried
pub mod Counted
pub mod Exact
pub mod FirstPlaces
pub mod Gathering
mod GivenTables
pub mod Least
pub mod Pieces
pub mod Same
pub mod Unpacked
pub mod Distinct
pub mod GivenKinds
