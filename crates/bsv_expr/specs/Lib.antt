pub mod Brackets
pub mod Expression
pub mod Expressions
pub mod Grammar
pub mod Lexemes
pub mod Readers
pub mod Reading
pub mod Trees
