pub mod Decimals
pub mod Digits
pub mod DigitsThen
pub mod Longest
pub mod NumberOf
pub mod Numerals
pub mod Tests
