pub mod StaysAccepted
mod Powers
mod Depths
mod Nodes
mod Sorts
mod Turns
