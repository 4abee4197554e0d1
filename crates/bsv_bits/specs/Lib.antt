pub mod Constants
pub mod DigitValues
pub mod Operators
pub mod Signed
pub mod Words
