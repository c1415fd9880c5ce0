mod Decided
mod Exists
pub mod Readings
