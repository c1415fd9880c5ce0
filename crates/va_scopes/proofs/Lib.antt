pub mod BlockNames
pub mod Builtins
pub mod Bytes
pub mod Finding
pub mod Scoping
pub mod Tabled
pub mod SecondDeclarations
