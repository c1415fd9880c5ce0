pub mod Expansion
pub mod Faults
pub mod Longest
pub mod Numerals
pub mod Spelling
pub mod Tables
pub mod Worked
pub mod WorkedTables
