pub mod ConstantTexts
pub mod DecimalTexts
pub mod DigitValues
pub mod Digits
pub mod Modulo
pub mod Signs
