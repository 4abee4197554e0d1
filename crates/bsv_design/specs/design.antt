-- Designs of flat bodies: names and roles, the words and the widths of nodes, calls that are not taken, and lifted guards.
pub mod Paths
pub mod Roles
pub mod Words
pub mod Computing
pub mod Bodies
pub mod Widths
pub mod Branches
pub mod Guards
pub mod Designs
