-- The nine kinds of primitives: their tables, the names of their methods, and what is printed of their parts.
pub mod Kinds
pub mod MethodNames
pub mod Printed
