pub mod LastMethods
pub mod WordWidths
pub mod Fitting
