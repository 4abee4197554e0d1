pub mod PartNumbers
pub mod SameTrace
pub mod EachStep
mod Uses
pub mod StepPlaces
pub mod StepsExclusive
pub mod StepsDecided
pub mod Outlined
pub mod OutlinedElements
pub mod OutlinedTyped
pub mod OutlinedParts
pub mod OutlinedNames
pub mod OutlinedDesigns
pub mod Flattened
pub mod Alike
pub mod Designed
