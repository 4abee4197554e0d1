-- The tree of a design: its instances, what calls name in it, and the text of its elements.
pub mod Widths
pub mod Methods
pub mod Contexts
pub mod Trees
pub mod Elements
pub mod Seen
