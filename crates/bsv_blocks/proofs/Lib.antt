pub mod HoleLaws
pub mod SimpleLaws
pub mod StatementKnot
pub mod TypeKnot
