-- What the source means under a look, by recursion on its text. Nothing here knows how text is carried out.
pub mod Values
pub mod Integers
pub mod Operators
pub mod Evaluation
pub mod Control
pub mod Meaning
pub mod Schemes
