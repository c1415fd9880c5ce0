pub mod Operands
pub mod Typing
