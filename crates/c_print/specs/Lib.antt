pub mod Pending
pub mod Prints
