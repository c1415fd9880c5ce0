pub mod Bindings
pub mod Blocks
pub mod Declaring
pub mod Finds
pub mod Seeing
pub mod Tables
