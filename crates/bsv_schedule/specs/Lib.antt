pub mod relating
pub mod execution_order
pub mod urgency_order
pub mod stopping
