-- Which element stops which, what that comes to where some fire, and how the code goes about it.
pub mod Stops
pub mod Firing
pub mod Placed
pub mod Placing
