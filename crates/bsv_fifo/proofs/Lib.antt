pub mod CountDigits
