pub mod Standing
pub mod Kinds
pub mod Values
