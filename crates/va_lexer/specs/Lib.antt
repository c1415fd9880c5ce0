pub mod Pieces
pub mod Separators
pub mod Tokens
pub mod Worked
