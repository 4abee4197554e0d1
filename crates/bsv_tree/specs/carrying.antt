-- How the compiler carries text out, before any look: values, what operators give, calls, and the steps that are left with
-- their weight. That these steps mean what the source means is a theorem; refusals and weight are defined here.
pub mod Values
pub mod Working
pub mod Frames
pub mod Arms
pub mod Applied
pub mod Operated
pub mod Calls
pub mod Carrying
pub mod Running
pub mod Sources
