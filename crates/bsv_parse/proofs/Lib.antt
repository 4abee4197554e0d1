pub mod Closed
pub mod Deepest
pub mod DefinitionLaws
pub mod Judged
pub mod ModuleKnot
pub mod PackageLaws
pub mod PlaceLaws
pub mod Whole
