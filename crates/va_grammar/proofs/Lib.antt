pub mod Facts
pub mod VaFits
pub mod Entries
pub mod VaSymbols
pub mod KindsEnd
pub mod Spellings
pub mod SpelledAt
