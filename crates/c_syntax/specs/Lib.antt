pub mod Fronts
pub mod Places
pub mod Syntax
pub mod grammar
