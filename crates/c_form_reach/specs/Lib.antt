pub mod Placed
pub mod Reach
pub mod Settings
