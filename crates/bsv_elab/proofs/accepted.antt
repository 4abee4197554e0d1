-- What is built is accepted: from state to state of building, each rule stays one that is carried out without a refusal.
pub mod Elements
pub mod Gives
pub mod Making
pub mod Modules
pub mod Rules
pub mod States
pub mod Trees
