pub mod Spelling
pub mod Limits
pub mod Tokens
pub mod Worked
